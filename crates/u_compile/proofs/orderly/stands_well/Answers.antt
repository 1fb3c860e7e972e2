use Rattle.u_compile.proofs.orderly.stands_well.Goals as goal

pub returns : goal.returns
returns c = λ sure. record {
  first = c.begins_well.ensures.first c.if-not-begins_well.false;
  begins = c.begins_well.ensures.begins c.if-not-begins_well.false;
  ends = c.has_its_region.ensures.ends c.if-not-has_its_region.false;
  turns = c.has_its_region.ensures.turns c.if-not-has_its_region.false;
  next = c.goes_on.ensures c.if-not-goes_on.false;
  backs = c.comes_back.ensures c.if-not-comes_back.false;
  params = c.takes_its_turn.ensures sure;
}
