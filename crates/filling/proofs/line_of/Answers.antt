use mathlib.Core.Bool.{true, false}
use mathlib.Core.Logic.{inl, inr}
use mathlib.Core.Path.{◌≡◌, refl, ap, sym, ◌∙◌}
use native.Mathlib.Omega.{arith}
use lib.ListN.{drop}
use Rattle.rules.specs.Token.{past_blanks}
use Rattle.rules.specs.Text.{goes_on}
use Rattle.token.proofs.PlaceLaws.{left_by}
use Rattle.ahead.proofs.AheadLaws.{says-thread, says-finally}
use Rattle.filling.proofs.HeldLaws.{held-threads, held-cells}
use Rattle.filling.proofs.LineLaws.{lined-steps, lined-condition}
use Rattle.filling.proofs.OneLaws.{says-cells, plains-none, plains-held, line-early-end, line-end, line-bare, line-cells, line-no-cells, line-plains, line-thread, line-early-finally, line-finally, line_row}
use Rattle.filling.proofs.line_of.Goals as goal

pub bounds-table-0 : goal.bounds-table-0
bounds-table-0 c =
    omega (arith, c.requires.held.room)

pub returns-then-table-eq0 : goal.returns-then-table-eq0
returns-then-table-eq0 c =
    let skipped : drop c.past_blanks-here.result c.args.text.now ≡ past_blanks (drop c.args.reached.at c.args.text.now) =
    left_by c.args.text.now c.args.reached.at c.past_blanks-here.result _ c.past_blanks-here.ensures in
    record {
      is = λ m held.
          let a = c.args in
          line-early-end a.text.now a.lines a.all a.reached.rows m a.reached.at c.past_blanks-here.result skipped c.if-text-here.true (omega (arith, c.if-table-eq0.true, held-threads a.table.now a.reached.length m held));
    }

pub returns-then-text-here : goal.returns-then-text-here
returns-then-text-here c =
    let skipped : drop c.past_blanks-here.result c.args.text.now ≡ past_blanks (drop c.args.reached.at c.args.text.now) =
    left_by c.args.text.now c.args.reached.at c.past_blanks-here.result _ c.past_blanks-here.ensures in
    record {
      is = λ m held.
          let a = c.args in
          (m, (line-end a.text.now a.lines a.all a.reached.rows m a.reached.at c.past_blanks-here.result skipped c.if-text-here.true (omega (arith, c.if-table-eq0.false, held-threads a.table.now a.reached.length m held)), held));
    }

pub returns-then-ends_line : goal.returns-then-ends_line
returns-then-ends_line c =
    let skipped : drop c.past_blanks-here.result c.args.text.now ≡ past_blanks (drop c.args.reached.at c.args.text.now) =
    left_by c.args.text.now c.args.reached.at c.past_blanks-here.result _ c.past_blanks-here.ensures in
    record {
      is = λ m held.
          let a = c.args in (
            m,
            (
              line-bare a.text.now a.lines a.all a.reached.rows m a.reached.at c.past_blanks-here.result skipped c.if-text-here.false (sym c.ends_line.ensures ∙ c.if-ends_line.true)
                  ∙ ap (goes_on a.reached.rows m) (sym (left_by a.text.now c.past_blanks-here.result c.next_line.result _ c.next_line.ensures)),
              held,
            ),
          );
    }

pub bounds-table-1 : goal.bounds-table-1
bounds-table-1 c =
    omega (arith, c.requires.held.room)

pub values_line-requires : goal.values_line-requires
values_line-requires c =
    (c.requires, inl refl, c.if-table-eq0-2.true, omega arith)

pub returns-then-is_word : goal.returns-then-is_word
returns-then-is_word c =
    let skipped : drop c.past_blanks-here.result c.args.text.now ≡ past_blanks (drop c.args.reached.at c.args.text.now) =
    left_by c.args.text.now c.args.reached.at c.past_blanks-here.result _ c.past_blanks-here.ensures in
    record {
      is = λ m held.
          let a = c.args in
          lined-steps a.text.now _ _ a.reached.length c.values_line.result _ c.values_line.ensures m held _ (line-cells a.text.now a.lines a.all a.reached.rows m a.reached.at c.past_blanks-here.result skipped c.if-text-here.false (sym c.ends_line.ensures ∙ c.if-ends_line.false) c.token_end-to.result c.token_end-to.ensures (sym (held-cells a.table.now a.reached.length m held) ∙ c.if-table-eq0-2.true) (says-cells a.text.now c.past_blanks-here.result c.token_end-to.result _ c.is_word.ensures true c.if-is_word.true));
    }

pub returns-then-table-eq0-2 : goal.returns-then-table-eq0-2
returns-then-table-eq0-2 c =
    let skipped : drop c.past_blanks-here.result c.args.text.now ≡ past_blanks (drop c.args.reached.at c.args.text.now) =
    left_by c.args.text.now c.args.reached.at c.past_blanks-here.result _ c.past_blanks-here.ensures in
    record {
      is = λ m held.
          let a = c.args in
          line-no-cells a.text.now a.lines a.all a.reached.rows m a.reached.at c.past_blanks-here.result skipped c.if-text-here.false (sym c.ends_line.ensures ∙ c.if-ends_line.false) c.token_end-to.result c.token_end-to.ensures (sym (held-cells a.table.now a.reached.length m held) ∙ c.if-table-eq0-2.true) (says-cells a.text.now c.past_blanks-here.result c.token_end-to.result _ c.is_word.ensures false c.if-is_word.false);
    }

pub is_plain_line-requires : goal.is_plain_line-requires
is_plain_line-requires c =
    omega (arith, c.requires.held.room)

pub values_line-requires-then-is_plain_line : goal.values_line-requires-then-is_plain_line
values_line-requires-then-is_plain_line c =
    (c.requires, inr refl, plains-none c.args.table.now _ _ c.is_plain_line.ensures c.if-is_plain_line.true, omega arith)

pub returns-then-is_plain_line : goal.returns-then-is_plain_line
returns-then-is_plain_line c =
    let skipped : drop c.past_blanks-here.result c.args.text.now ≡ past_blanks (drop c.args.reached.at c.args.text.now) =
    left_by c.args.text.now c.args.reached.at c.past_blanks-here.result _ c.past_blanks-here.ensures in
    record {
      is = λ m held.
          let a = c.args in
          lined-steps a.text.now _ _ a.reached.length c.values_line-then-is_plain_line.result _ c.values_line-then-is_plain_line.ensures m held _ (line-plains a.text.now a.lines a.all a.reached.rows m a.reached.at c.past_blanks-here.result skipped c.if-text-here.false (sym c.ends_line.ensures ∙ c.if-ends_line.false) c.token_end-to.result c.token_end-to.ensures (λ (z : m.cells ≡ 0). c.if-table-eq0-2.false (held-cells a.table.now a.reached.length m held ∙ z)) (plains-held a.table.now _ a.reached.length m held _ c.is_plain_line.ensures true c.if-is_plain_line.true));
    }

pub a_thread-requires : goal.a_thread-requires
a_thread-requires c = c.requires

pub returns-then-is_word-2 : goal.returns-then-is_word-2
returns-then-is_word-2 c =
    let skipped : drop c.past_blanks-here.result c.args.text.now ≡ past_blanks (drop c.args.reached.at c.args.text.now) =
    left_by c.args.text.now c.args.reached.at c.past_blanks-here.result _ c.past_blanks-here.ensures in
    record {
      is = λ m held.
          let a = c.args in
          lined-steps a.text.now _ _ a.reached.length c.a_thread.result _ c.a_thread.ensures m held _ (line-thread a.text.now a.lines a.all a.reached.rows m a.reached.at c.past_blanks-here.result skipped c.if-text-here.false (sym c.ends_line.ensures ∙ c.if-ends_line.false) c.token_end-to.result c.token_end-to.ensures (λ (z : m.cells ≡ 0). c.if-table-eq0-2.false (held-cells a.table.now a.reached.length m held ∙ z)) (plains-held a.table.now _ a.reached.length m held _ c.is_plain_line.ensures false c.if-is_plain_line.false) (says-thread a.text.now c.past_blanks-here.result c.token_end-to.result _ c.is_word-2.ensures true c.if-is_word-2.true));
    }

pub the_condition-requires : goal.the_condition-requires
the_condition-requires c =
    omega (arith, c.requires.held.room)

pub returns-then-is_word-3 : goal.returns-then-is_word-3
returns-then-is_word-3 c =
    let skipped : drop c.past_blanks-here.result c.args.text.now ≡ past_blanks (drop c.args.reached.at c.args.text.now) =
    left_by c.args.text.now c.args.reached.at c.past_blanks-here.result _ c.past_blanks-here.ensures in
    record {
      is = λ m held.
          let a = c.args in
          lined-condition a.text.now a.table.now a.reached.length c.past_blanks-here.result c.token_end-to.result _ m held
          (λ l. line-finally a.text.now a.lines a.all a.reached.rows m a.reached.at c.past_blanks-here.result skipped c.if-text-here.false (sym c.ends_line.ensures ∙ c.if-ends_line.false) c.token_end-to.result c.token_end-to.ensures (λ (z : m.cells ≡ 0). c.if-table-eq0-2.false (held-cells a.table.now a.reached.length m held ∙ z)) (plains-held a.table.now _ a.reached.length m held _ c.is_plain_line.ensures false c.if-is_plain_line.false) (says-thread a.text.now c.past_blanks-here.result c.token_end-to.result _ c.is_word-2.ensures false c.if-is_word-2.false) (says-finally a.text.now c.past_blanks-here.result c.token_end-to.result _ c.is_word-3.ensures true c.if-is_word-3.true) l)
          (λ l. line-early-finally a.text.now a.lines a.all a.reached.rows m a.reached.at c.past_blanks-here.result skipped c.if-text-here.false (sym c.ends_line.ensures ∙ c.if-ends_line.false) c.token_end-to.result c.token_end-to.ensures (λ (z : m.cells ≡ 0). c.if-table-eq0-2.false (held-cells a.table.now a.reached.length m held ∙ z)) (plains-held a.table.now _ a.reached.length m held _ c.is_plain_line.ensures false c.if-is_plain_line.false) (says-thread a.text.now c.past_blanks-here.result c.token_end-to.result _ c.is_word-2.ensures false c.if-is_word-2.false) (says-finally a.text.now c.past_blanks-here.result c.token_end-to.result _ c.is_word-3.ensures true c.if-is_word-3.true) l)
          _ c.the_condition.ensures;
    }

pub a_row-requires : goal.a_row-requires
a_row-requires c = c.requires

pub returns : goal.returns
returns c =
    let skipped : drop c.past_blanks-here.result c.args.text.now ≡ past_blanks (drop c.args.reached.at c.args.text.now) =
    left_by c.args.text.now c.args.reached.at c.past_blanks-here.result _ c.past_blanks-here.ensures in
    record {
      is = λ m held.
          let a = c.args in
          lined-steps a.text.now _ _ a.reached.length c.a_row.result _ c.a_row.ensures m held _ (line_row a.text.now a.lines a.all a.reached.rows m a.reached.at c.past_blanks-here.result skipped c.if-text-here.false (sym c.ends_line.ensures ∙ c.if-ends_line.false) c.token_end-to.result c.token_end-to.ensures (λ (z : m.cells ≡ 0). c.if-table-eq0-2.false (held-cells a.table.now a.reached.length m held ∙ z)) (plains-held a.table.now _ a.reached.length m held _ c.is_plain_line.ensures false c.if-is_plain_line.false) (says-thread a.text.now c.past_blanks-here.result c.token_end-to.result _ c.is_word-2.ensures false c.if-is_word-2.false) (says-finally a.text.now c.past_blanks-here.result c.token_end-to.result _ c.is_word-3.ensures false c.if-is_word-3.false));
    }
