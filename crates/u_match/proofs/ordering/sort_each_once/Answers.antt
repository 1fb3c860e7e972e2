use Rattle.std.proofs.Common.{◌≡◌, sym, ◌∙◌, true}
use Rattle.std.specs.Cmp.{Equal-is}
use Rattle.u_rule.specs.EntryOrder.{firing_cmp}
use Rattle.u_rule.specs.ExactOrders.{firing_cmp_total, firing_cmp_ties}
use Rattle.u_rule.specs.contracts.firing.FiringOrd.TheImpl.Laws as orders
use Rattle.u_rule.specs.contracts.firing.FiringEq.TheImpl.Laws as equals
use Rattle.u_rule.specs.contracts.firing.FiringPartialEq.TheImpl as equal
use Rattle.u_rule.specs.declared.firing.Firing.{Firing}
use Rattle.u_match.proofs.Ordered.{rises, same}
use Rattle.u_match.proofs.ordering.sort_each_once.Goals as goal

exact : (x y : Firing) → (equal.ghosts).eq x y ≡ true → x ≡ y
exact x y e = firing_cmp_ties x y ((Equal-is (firing_cmp x y)).0 (sym (orders.matches_eq-law x y) ∙ e))

pub returns-clause-rises : goal.returns-clause-rises
returns-clause-rises c = rises firing_cmp firing_cmp_total (equal.ghosts).eq orders.matches_eq-law c.sort_unstable.new.self.items c.dedup.new.self.items c.sort_unstable.ensures.sorted c.dedup.ensures.filtered

pub returns-clause-same : goal.returns-clause-same
returns-clause-same c = same firing_cmp firing_cmp_total (equal.ghosts).eq orders.matches_eq-law equals.laws-law exact c.args.firings.now.items c.sort_unstable.new.self.items c.dedup.new.self.items c.sort_unstable.ensures.permutation c.dedup.ensures.filtered
