use Rattle.image.specs.Saving.{by_rule, by_room, as_image}
use Rattle.image.proofs.SavedIsImage.{length-is}
use Rattle.laws.specs.{Says.{apart}, Kit.{arith, refl}}
use Rattle.image.proofs.save.Goals as goal

pub returns-then-not-keeps_rules : goal.returns-then-not-keeps_rules
returns-then-not-keeps_rules c = by_rule (λ s. apart c.keeps_rules.result (c.keeps_rules.ensures.from s) c.if-not-keeps_rules.true) refl

pub returns-then-out-image_length : goal.returns-then-out-image_length
returns-then-out-image_length c = let S = c.keeps_rules.ensures.to c.if-not-keeps_rules.false in by_room S (omega (arith, length-is S, c.image_length.ensures, c.if-out-image_length.true)) refl

pub save_parts-requires : goal.save_parts-requires
save_parts-requires c = let S = c.keeps_rules.ensures.to c.if-not-keeps_rules.false in record {
  sound = S;
  room = omega (arith, length-is S, c.image_length.ensures, c.if-out-image_length.false);
}

pub returns : goal.returns
returns c = let S = c.keeps_rules.ensures.to c.if-not-keeps_rules.false in as_image c.save_parts.result S (omega (arith, length-is S, c.image_length.ensures, c.if-out-image_length.false)) c.save_parts.ensures.stored c.save_parts.ensures.size
