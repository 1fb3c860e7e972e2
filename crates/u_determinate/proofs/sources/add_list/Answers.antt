use Rattle.std.proofs.Common.{◌≡◌, ℕ, ◌+◌, ◌-◌, ◌==◌, refl, sym, ap, ◌∙◌, arith, List, length, get_or, Some, subst}
use Rattle.std.specs.Prelude.{slice_get, if◌then◌else◌}
use Rattle.std.proofs.lemmas.Option.{slice_get_read, slice_get-get_or}
use Rattle.u_program.specs.declared.program.Destination.{Destination}
use Rattle.u_check.specs.Rules.{statement_at, list_of, arc}
use Rattle.u_determinate.specs.declared.sources.Source.{Source}
use Rattle.u_determinate.specs.declared.sources.Sources.{Sources}
use Rattle.u_determinate.specs.declared.sources.Sources.TheVariants.{Nothing}
use Rattle.u_determinate.specs.Tables.{ArcsBefore, list_number, way_of, with_source, IsFrom}
use Rattle.u_determinate.proofs.NumberFacts.{place_number}
use Rattle.u_determinate.proofs.SourceTables.{other_port, this_port, next_list}
use Rattle.u_determinate.proofs.sources.add_list.Goals as goal
use Rattle.u_determinate.proofs.sources.add_list.Goals.{then-destination-port, else-destination-port}

pub loop-destination-init : goal.loop-destination-init
loop-destination-init c = c.requires.known

pub loop-destination-preserved : goal.loop-destination-preserved
loop-destination-preserved c =
    let ss = c.args.statements.now in
    let n = c.args.place + 1 in
    let f = c.args.on_false in
    let j = c.loop-destination.destination-index in
    let it = c.index-statements-place.result in
    let none : Destination = record { statement = 0; port = 0 } in
    let d : Destination = get_or c.sent_by-destination-items.result.now j none in
    let stands : statement_at ss n ≡ Some it = place_number ss c.args.place it (slice_get_read ss _ c.args.place it refl (omega arith) c.index-statements-place.is) in
    let at : slice_get (list_of it f) j ≡ Some d = subst (λ (ds : List Destination). slice_get ds j ≡ Some d) c.sent_by-destination-items.ensures (slice_get-get_or c.sent_by-destination-items.result.now j none (omega arith)) in
    let source : Source = record { statement = n; on_false = f; way = c.way_of.result } in
    let from : IsFrom ss (arc n f j) source = record { statement = refl; side = refl; it = it; stands = stands; way = ap way_of (sym c.kind.ensures) ∙ sym c.way_of.ensures } in
    elim c.if-destination-port.branch [
      | then-destination-port w ↦
          let long : length w.add.new.table ≡ length c.loop-destination.table = sym (ap length w.table-is) ∙ c.if-destination-port.auto.table in
          subst (λ (t : List Sources). ArcsBefore ss c.args.port (list_number n f) (j + 1) t) (sym w.table-is)
          (this_port ss c.args.port n f j it d stands at c.loop-destination.table c.loop-destination.invariant source w.add.new.table w.if-destination-port.true from long
          (λ m a b. subst (λ (k : ℕ). get_or w.add.new.table (m - 1) Nothing ≡ (if m == k then with_source (get_or c.loop-destination.table (m - 1) Nothing) source else get_or c.loop-destination.table (m - 1) Nothing)) w.from.ensures (w.add.ensures m a b)))
      | else-destination-port w ↦
          subst (λ (t : List Sources). ArcsBefore ss c.args.port (list_number n f) (j + 1) t) (sym w.table-is)
          (other_port ss c.args.port n f j it d stands at c.loop-destination.table c.loop-destination.invariant w.if-destination-port.false)
    ]

pub returns : goal.returns
returns c =
    let ss = c.args.statements.now in
    let n = c.args.place + 1 in
    let f = c.args.on_false in
    let it = c.index-statements-place.result in
    let stands : statement_at ss n ≡ Some it = place_number ss c.args.place it (slice_get_read ss _ c.args.place it refl (omega arith) c.index-statements-place.is) in
    let end : c.loop-destination.destination-index ≡ length (list_of it f) = (let e = ap length c.sent_by-destination-items.ensures in omega (arith, e)) in
    next_list ss c.args.port n f it c.loop-destination.table stands (subst (λ (j : ℕ). ArcsBefore ss c.args.port (list_number n f) j c.loop-destination.table) end c.loop-destination.invariant)
