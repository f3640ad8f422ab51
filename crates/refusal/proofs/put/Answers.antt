use borrow.Author.Tests.{eq-eqb, ne_eqb}
use Rattle.refusal.specs.Refusals.{put_refusal}
use Rattle.refusal.proofs.RefusalLaws.{good_named, unnamed}
use Rattle.refusal.proofs.put.Goals as goal

pub returns-then-site-ne-NO_PLACE : goal.returns-then-site-ne-NO_PLACE
unfolding put_refusal
returns-then-site-ne-NO_PLACE c = rw (ne_eqb _ 255 c.if-site-ne-NO_PLACE.true) c.put.ensures

pub returns-then-is_ok : goal.returns-then-is_ok
unfolding put_refusal
returns-then-is_ok c =
    rw (eq-eqb _ 255 c.if-site-ne-NO_PLACE.false, ← c.judge.ensures, good_named _ c.is_ok.ensures.value c.if-is_ok.true) c.put-then-is_ok.ensures

pub returns : goal.returns
unfolding put_refusal
returns c =
    rw (eq-eqb _ 255 c.if-site-ne-NO_PLACE.false, ← c.judge.ensures, ← unnamed _ _ _ _ c.is_ok.ensures.value c.if-is_ok.false) c.put-2.ensures
