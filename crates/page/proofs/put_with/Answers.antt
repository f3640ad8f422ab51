use mathlib.Core.Path.{ap, ◌∙◌}
use Rattle.digits.specs.Shown.{shown}
use Rattle.page.specs.Pages.{Page, put_text}
use Rattle.page.proofs.put_with.Goals as goal

pub returns : goal.returns
returns c =
    c.put_number.ensures ∙ ap (λ (l : Page). put_text l (shown c.args.n)) c.put-to.ensures
