-- What came of a step, in words. Assumes nothing.
--     put_came     puts them behind a line's end
use Rattle.std.specs.Prelude.{ℕ, Bool, cond, eqb, Option, Some, None}
use Rattle.rules.specs.Token.{bytes_of}
use Rattle.digits.specs.Shown.{shown}
use Rattle.page.specs.Pages.{Page, put_text, put_filled}
use Rattle.outcome.specs.declared.Came.{Came}
use Rattle.outcome.specs.declared.Came.TheVariants as came

-- a value that was read, and the step that wrote it: 0 is none
unfoldable pub put_read : Page → ℕ → ℕ → Page
put_read l v by =
    cond (eqb by 0) (put_filled l (bytes_of "read #, the start value") v 0 0) (put_filled l (bytes_of "read #, from step #") v by 0)

unfoldable pub put_taken : Page → Bool → Page
put_taken l taken = cond taken (put_text l (bytes_of "taken")) (put_text l (bytes_of "not taken"))

unfoldable pub put_came : Page → Option Came → Page
put_came l None = put_text l (bytes_of "-")
put_came l (Some (came.Read v by)) = put_read l v by
put_came l (Some (came.Stored v)) = put_text (put_text l (bytes_of "stored ")) (shown v)
put_came l (Some (came.Wrote v by w)) = put_text (put_text (put_read l v by) (bytes_of "; wrote ")) (shown w)
put_came l (Some (came.Failed v by)) = put_text (put_read l v by) (bytes_of "; failed, wrote nothing")
put_came l (Some (came.Left v w)) = put_filled l (bytes_of "found #, left #") v w 0
put_came l (Some (came.Took bit)) = put_text (put_text l (bytes_of "took ")) (shown bit)
put_came l (Some (came.Jumped taken)) = put_taken l taken
put_came l (Some came.Passed) = put_text l (bytes_of "passed")
put_came l (Some (came.Written v)) = put_text (put_text l (bytes_of "wrote ")) (shown v)
