use Rattle.std.proofs.Common.{subst, rules, ◌<◌}
use Rattle.u_replica.specs.ReplicaState.{HoldsAlways}
use Rattle.u_replica.proofs.replica.Replica.holds.Goals as goal

pub returns : goal.returns
returns c = subst HoldsAlways c.self.view_is (record {
  is = record { machine = c.holds.ensures.is; number = c.self.invariant.0; born = c.self.invariant.1; life = (let k : c.self.inside.life < 18446744073709551616 = search rules in k); marks = c.holds-2.ensures };
  promise = c.holds.ensures.promise;
})
