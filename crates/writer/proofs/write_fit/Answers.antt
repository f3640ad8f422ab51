use Prim.Native.Nat.{ℕ, ◌≤◌}
use mathlib.Core.Bool.{true}
use mathlib.Core.Path.{◌≡◌, ap, sym, ◌∙◌}
use native.Mathlib.Omega.{arith}
use borrow.Author.Tests.{not-true, not-false}
use lib.ListN.{get_or}
use Rattle.rules.specs.Table.{threads_of}
use Rattle.rules.specs.Condition.{is_condition}
use Rattle.condition_line.specs.Units.{Units}
use Rattle.condition_line.proofs.FineLaws.{fine-claim}
use Rattle.writer.specs.Answers.{Fit}
use Rattle.writer.proofs.TextLaws.{cleared}
use Rattle.writer.proofs.IntoLaws.{fit-good, into-condition, into-short, into-written}
use Rattle.writer.proofs.write_fit.Goals as goal

pub bounds-table-0 : goal.bounds-table-0
bounds-table-0 c = omega (arith, (fit-good _ c.requires).header)

pub returns-then-not-is_condition : goal.returns-then-not-is_condition
returns-then-not-is_condition c =
    let claims : is_condition (threads_of c.args.table.now) c.args.condition.now ≡ c.is_condition.result =
    ap (λ (n : ℕ). is_condition n c.args.condition.now) (sym c.wide8.ensures.same) ∙ sym c.is_condition.ensures in
    into-condition c.args.table.now c.args.condition.now c.args.text.now c.requires (claims ∙ not-true _ c.if-not-is_condition.true-raw)

pub put_text-length-requires : goal.put_text-length-requires
put_text-length-requires c =
    let claims : is_condition (threads_of c.args.table.now) c.args.condition.now ≡ c.is_condition.result =
    ap (λ (n : ℕ). is_condition n c.args.condition.now) (sym c.wide8.ensures.same) ∙ sym c.is_condition.ensures in
    let few : threads_of c.args.table.now ≤ 10 =
    omega (arith, (fit-good _ c.requires).threads) in
    let claimed : is_condition (threads_of c.args.table.now) c.args.condition.now ≡ true =
    claims ∙ not-false _ c.if-not-is_condition.false-raw in
    let fits : Fit c.args.table.now × Units c.args.condition.now =
    (fit-good _ c.requires, (fine-claim _ few _ claimed).0) in
    fits

pub returns-then-text-length : goal.returns-then-text-length
returns-then-text-length c =
    let byte : (i : ℕ) → get_or c.args.table.now i 0 ≤ 255 =
    λ i. omega (arith, c.shared_slice_known-1.given i) in
    let claims : is_condition (threads_of c.args.table.now) c.args.condition.now ≡ c.is_condition.result =
    ap (λ (n : ℕ). is_condition n c.args.condition.now) (sym c.wide8.ensures.same) ∙ sym c.is_condition.ensures in
    let few : threads_of c.args.table.now ≤ 10 =
    omega (arith, (fit-good _ c.requires).threads) in
    let claimed : is_condition (threads_of c.args.table.now) c.args.condition.now ≡ true =
    claims ∙ not-false _ c.if-not-is_condition.false-raw in
    into-short c.args.table.now c.args.condition.now c.args.text.now c.requires claimed byte few _ _ _ c.put_text-length.ensures c.if-text-length.true

pub put_text-requires : goal.put_text-requires
put_text-requires c =
    let claims : is_condition (threads_of c.args.table.now) c.args.condition.now ≡ c.is_condition.result =
    ap (λ (n : ℕ). is_condition n c.args.condition.now) (sym c.wide8.ensures.same) ∙ sym c.is_condition.ensures in
    let few : threads_of c.args.table.now ≤ 10 =
    omega (arith, (fit-good _ c.requires).threads) in
    let claimed : is_condition (threads_of c.args.table.now) c.args.condition.now ≡ true =
    claims ∙ not-false _ c.if-not-is_condition.false-raw in
    let fits : Fit c.args.table.now × Units c.args.condition.now =
    (fit-good _ c.requires, (fine-claim _ few _ claimed).0) in
    fits

pub returns : goal.returns
returns c =
    let byte : (i : ℕ) → get_or c.args.table.now i 0 ≤ 255 =
    λ i. omega (arith, c.shared_slice_known-1.given i) in
    let claims : is_condition (threads_of c.args.table.now) c.args.condition.now ≡ c.is_condition.result =
    ap (λ (n : ℕ). is_condition n c.args.condition.now) (sym c.wide8.ensures.same) ∙ sym c.is_condition.ensures in
    let few : threads_of c.args.table.now ≤ 10 =
    omega (arith, (fit-good _ c.requires).threads) in
    let claimed : is_condition (threads_of c.args.table.now) c.args.condition.now ≡ true =
    claims ∙ not-false _ c.if-not-is_condition.false-raw in
    into-written c.args.table.now c.args.condition.now c.args.text.now c.requires claimed byte few _ _ _ c.put_text-length.ensures c.if-text-length.false _ _ _ c.put_text.ensures (cleared c.put_text.new.text _ c.put_text-length.result (omega (arith, c.put_text.auto, c.if-text-length.false)) (c.fill.ensures.after (λ y e. e)))
