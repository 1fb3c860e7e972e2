use Rattle.std.proofs.Common.{List, [], ◌∷◌, ◌++◌, ◌+◌, take, sym, subst}
use Rattle.u_world.specs.declared.refused.WorldError.{WorldError}
use Rattle.u_pictures.specs.declared.happening.Happening.{Happening}
use Rattle.u_pictures.specs.declared.living.Sent.{Sent}
use Rattle.u_pictures.specs.Living.{Goes, Lives, Agree, LiveRefused, sent_by}
use Rattle.u_pictures.proofs.Lives.{lives_steps, lives_more, refused_later}
use Rattle.u_pictures.proofs.living.live.Goals as goal

pub returns-in-Err : goal.returns-in-Err
returns-in-Err c =
    let w = c.args.world.now in
    let es = c.args.events.now in
    let i = c.loop-place.place in
    let mid = c.loop-place.world in
    let new = c.happen.new.world in
    subst (λ (e : WorldError). LiveRefused w es e new) (sym c.error_in.ensures)
    (refused_later w es i mid c.index-events-place.result new c.loop-place-test.true c.index-events-place.is
    (lives_steps 1 [] w (take i es) c.loop-place.happenings.items c.loop-place.sent.items mid c.loop-place.invariant.lives) c.in-Err.error c.in-Err.ensures)

pub loop-place-preserved : goal.loop-place-preserved
loop-place-preserved c =
    let w = c.args.world.now in
    let es = c.args.events.now in
    let i = c.loop-place.place in
    let mid = c.loop-place.world in
    let new = c.happen.new.world in
    let e = c.index-events-place.result in
    let h = c.in-Ok.happening in
    let hs = c.loop-place.happenings.items in
    let sent = c.loop-place.sent.items in
    let g : Goes (i + 1) sent mid e h new = subst (λ (xs : List Sent). Goes (i + 1) xs mid e h new) c.deref.ensures.value (c.in-Ok.ensures (i + 1)) in
    record {
      lives =
          subst (λ (xs : List Happening). Lives 1 [] w (take (i + 1) es) xs c.keep.new.sent.items new) (sym c.in-Ok-keep.ensures.happenings)
          (subst (λ (ys : List Sent). Lives 1 [] w (take (i + 1) es) (hs ++ (h ∷ [])) ys new) (sym c.in-Ok-keep.ensures.sent)
          (lives_more w es i hs sent mid e h (sent_by (i + 1) e sent) new c.loop-place-test.true c.index-events-place.is c.loop-place.invariant.lives g.0));
      agree = subst (λ (ys : List Sent). Agree ys new.messages) (sym c.in-Ok-keep.ensures.sent) g.1;
    }
