use Rattle.std.proofs.Common.{rules, subst}
use Rattle.u_delta.specs.declared.head.Head.TheVariants as heads
use Rattle.u_delta.specs.Lines.{IsShort}
use Rattle.u_delta.proofs.HeadLaws.{head_sound}
use Rattle.u_delta.proofs.ReadingLaws.{first_read}
use Rattle.u_delta.proofs.reading.read_lines.Goals as goal

pub read_ask-requires-clause-head : goal.read_ask-requires-clause-head
read_ask-requires-clause-head c = (head_sound c.in-Ok.found.0.now (heads.Ask c.in-Ok-Ask.ask) (search rules)).0

pub read_ask-requires-clause-short : goal.read_ask-requires-clause-short
read_ask-requires-clause-short c =
    subst (λ t. IsShort t) (head_sound c.in-Ok.found.0.now (heads.Ask c.in-Ok-Ask.ask) (search rules)).1 c.in-Ok.ensures.0.1

pub read_delta-requires-clause-head : goal.read_delta-requires-clause-head
read_delta-requires-clause-head c = (head_sound c.in-Ok.found.0.now (heads.Delta c.in-Ok-Delta.opening) (search rules)).0

pub read_delta-requires-clause-short : goal.read_delta-requires-clause-short
read_delta-requires-clause-short c =
    subst (λ t. IsShort t) (head_sound c.in-Ok.found.0.now (heads.Delta c.in-Ok-Delta.opening) (search rules)).1 c.in-Ok.ensures.0.1

pub returns-in-Ok-Ask : goal.returns-in-Ok-Ask
returns-in-Ok-Ask c =
    first_read c.args.bytes.now c.in-Ok.found.0.now c.in-Ok.found.1.now (heads.Ask c.in-Ok-Ask.ask) c.read_ask.result c.in-Ok.ensures.0 (head_sound c.in-Ok.found.0.now (heads.Ask c.in-Ok-Ask.ask) (search rules)).1 c.read_ask.ensures

pub returns-in-Ok-Delta : goal.returns-in-Ok-Delta
returns-in-Ok-Delta c =
    first_read c.args.bytes.now c.in-Ok.found.0.now c.in-Ok.found.1.now (heads.Delta c.in-Ok-Delta.opening) c.read_delta.result c.in-Ok.ensures.0 (head_sound c.in-Ok.found.0.now (heads.Delta c.in-Ok-Delta.opening) (search rules)).1 c.read_delta.ensures
