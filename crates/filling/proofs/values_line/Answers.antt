use mathlib.Core.Path.{◌≡◌, refl, ap, sym, ◌∙◌}
use native.Mathlib.Omega.{arith}
use Prim.Native.Nat.{◌+◌, ◌-◌}
use lib.ListN.{get_or, drop}
use Rattle.rules.specs.Token.{past_blanks}
use Rattle.rules.specs.Text.{Draft}
use Rattle.token.specs.Finds.{found_of}
use Rattle.token.proofs.PlaceLaws.{left_by}
use Rattle.filling.specs.Tables.{HeldTable, how_many, with_cell_or_plain}
use Rattle.filling.proofs.HeldLaws.{held-many, counts-low, more-many, within}
use Rattle.filling.proofs.LineLaws.{lined-bare, values-out, values-found, values-bare, values-none}
use borrow.Author.Rules.{rules}
use Rattle.filling.proofs.values_line.Goals as goal

pub loop-i-init : goal.loop-i-init
loop-i-init c = let all : c.args.values.most - 0 ≡ c.args.values.most = omega arith in rw all (
  refl,
  λ m held. record {
    made = m;
    held = held;
    count =
        let p = c.requires in
        omega (arith, p.2, p.3, held-many c.args.table.now c.args.length m held c.args.values.place p.1);
    same = refl;
  },
)

pub bounds-table-place : goal.bounds-table-place
bounds-table-place c =
    omega (arith, (c.loop-i.invariant.1 c.requires.0.made c.requires.0.held).held.room, counts-low c.args.values.place c.requires.1)

pub returns-then-table-place-eq0 : goal.returns-then-table-place-eq0
returns-then-table-place-eq0 c =
    let many : (m : Draft) → HeldTable c.loop-i.table c.loop-i.long m → get_or c.loop-i.table c.args.values.place 0 ≡ how_many c.args.values.place m =
    λ m held. held-many c.loop-i.table c.loop-i.long m held c.args.values.place c.requires.1 in
    let skipped : drop c.past_blanks-here.result c.args.text.now ≡ past_blanks (drop c.loop-i.from c.args.text.now) =
    left_by c.args.text.now c.loop-i.from c.past_blanks-here.result _ c.past_blanks-here.ensures in
    record {
      is = λ m held.
          let a = c.args in
          let w = c.loop-i.invariant.1 m held in
          sym w.same ∙ values-none (with_cell_or_plain a.values.place) (how_many a.values.place) a.text.now c.loop-i.from (c.args.values.most - c.loop-i.i) w.made c.past_blanks-here.result c.token_end-to.result skipped c.token_end-to.ensures (omega arith) (sym c.number.ensures ∙ ap found_of c.in_default.is) (omega (arith, c.if-table-place-eq0.true, many w.made w.held));
    }

pub returns-in_default : goal.returns-in_default
returns-in_default c =
    let many : (m : Draft) → HeldTable c.loop-i.table c.loop-i.long m → get_or c.loop-i.table c.args.values.place 0 ≡ how_many c.args.values.place m =
    λ m held. held-many c.loop-i.table c.loop-i.long m held c.args.values.place c.requires.1 in
    let skipped : drop c.past_blanks-here.result c.args.text.now ≡ past_blanks (drop c.loop-i.from c.args.text.now) =
    left_by c.args.text.now c.loop-i.from c.past_blanks-here.result _ c.past_blanks-here.ensures in
    record {
      is = λ m held.
          let a = c.args in
          let w = c.loop-i.invariant.1 m held in
          lined-bare a.text.now c.loop-i.from 0 c.loop-i.long c.behind_values.result c.behind_values.ensures c.loop-i.table a.length w.made w.held _ (values-bare (with_cell_or_plain a.values.place) (how_many a.values.place) a.text.now c.loop-i.from (c.args.values.most - c.loop-i.i) w.made c.past_blanks-here.result c.token_end-to.result skipped c.token_end-to.ensures (omega arith) (sym c.number.ensures ∙ ap found_of c.in_default.is) (omega (arith, c.if-table-place-eq0.false, many w.made w.held)) ∙ w.same);
    }

pub add_value-requires : goal.add_value-requires
add_value-requires c =
    let many : (m : Draft) → HeldTable c.loop-i.table c.loop-i.long m → get_or c.loop-i.table c.args.values.place 0 ≡ how_many c.args.values.place m =
    λ m held. held-many c.loop-i.table c.loop-i.long m held c.args.values.place c.requires.1 in
    let w = c.loop-i.invariant.1 c.requires.0.made c.requires.0.held in
    (record { made = w.made; held = w.held }, c.requires.1, omega (arith, many w.made w.held, w.count, c.loop-i-test.true))

pub overflow_add-long : goal.overflow_add-long
overflow_add-long c =
    let w = c.loop-i.invariant.1 c.requires.0.made c.requires.0.held in
    omega (arith, within c.loop-i.table c.loop-i.long w.made w.held)

pub loop-i-preserved : goal.loop-i-preserved
loop-i-preserved c =
    let skipped : drop c.past_blanks-here.result c.args.text.now ≡ past_blanks (drop c.loop-i.from c.args.text.now) =
    left_by c.args.text.now c.loop-i.from c.past_blanks-here.result _ c.past_blanks-here.ensures in
    let a = c.args in
    let one-less : a.values.most - (c.loop-i.i + 1) ≡ a.values.most - c.loop-i.i - 1 = omega arith in
    rw one-less (
      search rules,
      λ m held.
          let w = c.loop-i.invariant.1 m held in
          record {
            made = with_cell_or_plain a.values.place w.made c.in-Some.value;
            held = c.add_value.ensures w.made w.held;
            count = omega (arith, w.count, c.loop-i-test.true, more-many a.values.place w.made c.in-Some.value);
            same = values-found (with_cell_or_plain a.values.place) (how_many a.values.place) a.text.now c.loop-i.from (c.args.values.most - c.loop-i.i) w.made c.past_blanks-here.result c.token_end-to.result skipped c.token_end-to.ensures (omega arith) _ (sym c.number.ensures ∙ ap found_of c.in-Some.is) ∙ w.same;
          },
    )

pub returns : goal.returns
returns c = record {
  is = λ m held.
      let a = c.args in
      let w = c.loop-i.invariant.1 m held in
      lined-bare a.text.now c.loop-i.from 0 c.loop-i.long c.behind_values-2.result c.behind_values-2.ensures c.loop-i.table a.length w.made w.held _ (values-out (with_cell_or_plain a.values.place) (how_many a.values.place) a.text.now c.loop-i.from (c.args.values.most - c.loop-i.i) w.made (omega arith) ∙ w.same);
}
