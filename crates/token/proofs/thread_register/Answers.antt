use Prim.Native.Nat.{◌-◌}
use mathlib.Core.Path.{◌≡◌, ap, sym, ◌∙◌}
use native.Mathlib.Omega.{arith}
use lib.ListN.{get_or}
use Rattle.rules.specs.Token.{found, found_if, is_between}
use Rattle.token.specs.Finds.{found_of}
use Rattle.token.proofs.WordLaws.{only-not, digit-most, thread-register-long, thread-register-point, thread-register-letter, thread-register-thread, thread-register-register, thread-register-all, owned-none, owned-found}
use Rattle.token.proofs.thread_register.Goals as goal
use Rattle.token.proofs.thread_register.Goals.{then-point-ne46-via-then-point-ne46, then-point-ne46-via-else-point-ne46+then-letter-ne114}

pub returns-in_default : goal.returns-in_default
returns-in_default c = owned-none _ _ c.part.ensures (thread-register-long c.part.result.now (grind arith))

pub returns-in_default-2 : goal.returns-in_default-2
returns-in_default-2 c = owned-none _ _ c.part.ensures (thread-register-long c.part.result.now (grind arith))

pub returns-then-point-ne46 : goal.returns-then-point-ne46
returns-then-point-ne46 c =
    let word = c.part.result.now in
    owned-none _ _ c.part.ensures
    (elim c.then-point-ne46.branch [
      | then-point-ne46-via-then-point-ne46 w ↦ thread-register-point word w.if-point-ne46.true
      | then-point-ne46-via-else-point-ne46+then-letter-ne114 w ↦ thread-register-letter word w.if-letter-ne114.true
    ])

pub returns-in_err-thread : goal.returns-in_err-thread
returns-in_err-thread c =
    let word = c.part.result.now in
    rw c.from_residual.ensures
    (owned-none _ _ c.part.ensures
    (thread-register-thread word (only-not _ (get_or word 0 0 - 48) (sym c.digit.ensures ∙ ap found_of c.in_err-thread.was))))

pub returns-in_err-register : goal.returns-in_err-register
returns-in_err-register c =
    let word = c.part.result.now in
    rw c.from_residual-in_err-register.ensures
    (owned-none _ _ c.part.ensures
    (thread-register-register word (only-not _ (get_or word 3 0 - 48) (sym c.digit-2.ensures ∙ ap found_of c.in_err-register.was))))

pub returns : goal.returns
returns c =
    let word = c.part.result.now in
    let thread : found_if (is_between 48 52 (get_or word 0 0)) (get_or word 0 0 - 48) ≡ found c.in_ok-thread.thread =
    sym c.digit.ensures ∙ ap found_of c.in_ok-thread.was in
    let register : found_if (is_between 48 51 (get_or word 3 0)) (get_or word 3 0 - 48) ≡ found c.in_ok-register.register =
    sym c.digit-2.ensures ∙ ap found_of c.in_ok-register.was in
    owned-found _ _ c.part.ensures _ _
    (thread-register-all word _ _ (omega arith) c.if-point-ne46.false c.if-letter-ne114.false thread register)
    (digit-most 52 (get_or word 0 0) _ thread)
    (digit-most 51 (get_or word 3 0) _ register)
