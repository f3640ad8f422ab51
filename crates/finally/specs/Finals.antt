-- Answer 18, in words: the final condition is false. Assumes nothing.
--     truth             whether a comparison is true
--     condition_words    a condition's words
--     put_compared       a comparison, its truth, and what its register holds
--     put_parts          each comparison of a condition from a place on
--     put_finally        that the condition is false, its line, and each comparison
use Rattle.std.specs.Prelude.{ℕ, zero, suc, ◌+◌, ◌-◌, List, Bool, cond, length, get_or, take, drop}
use Rattle.std.specs.Option.{option_map_or}
use Prim.Native.String.{String}
use Rattle.rules.specs.Condition.{comparison_bytes}
use Rattle.rules.specs.Table.{shape_of}
use Rattle.rules.specs.Token.{bytes_of}
use Rattle.page.specs.Pages.{Page, put_text, put_filled}
use Rattle.steps.specs.Entries.{entries}
use Rattle.steps.specs.Holds.{held_after}
use Rattle.unmet.specs.Parts.{next_from, part_at, claim_shown}
use Rattle.unmet.specs.declared.Part.{Part}

abbrev pub truth : Bool → String
truth holds = cond holds "  true: " "  false: "

-- what stands in a condition's line between `finally` with a blank and the line's end
unfoldable pub condition_words : List ℕ → List ℕ
condition_words line = take (length line - 1 - 8) (drop 8 line)

unfoldable pub put_compared : Page → List ℕ → ℕ → Part → Page
put_compared p bs threads part =
    put_filled
    (put_text (put_text p (bytes_of (truth part.holds))) (condition_words (claim_shown threads bs)))
    (bytes_of ", for #.r# is #\n")
    part.thread
    part.register
    part.value

-- n comparisons at most, of those from this place on
unfoldable pub put_parts : ℕ → Page → List ℕ → ℕ → List ℕ → ℕ → Page
put_parts zero p bs threads h from = p
put_parts (suc n) p bs threads h from =
    option_map_or
    (λ (at : ℕ).
    option_map_or
    (λ (part : Part). put_parts n (put_compared p (take comparison_bytes (drop at bs)) threads part) bs threads h (at + comparison_bytes))
    (part_at bs h at)
    p)
    (next_from bs from)
    p

-- by the header's count of threads, and by what is held after the last step. A condition has fewer comparisons than bytes
unfoldable pub put_finally : Page → List ℕ → List ℕ → List ℕ → Page
put_finally p table condition trace =
    put_parts (length condition)
    (put_text (put_text p (bytes_of "answer 18: failed: every thread has ended, and the final condition is false\n")) (claim_shown (get_or (shape_of table) 0 0) condition))
    condition
    (get_or (shape_of table) 0 0)
    (held_after table trace (entries trace))
    0
