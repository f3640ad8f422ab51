-- What ties a report of the code to the definition's. Assumes nothing.
--     fits            an answer with a verdict's case says what the verdict says
--     ran-reported    the report of a run's stop
--     bad-settings, bad-path, bad-trace, bad-table      the report of each refusal
use Prim.Native.Nat.{ℕ}
use mathlib.Core.List.{List}
use mathlib.Core.Path.{◌≡◌, refl}
use Rattle.rules.specs.Path.{open_in}
use Rattle.rules.specs.State.{State}
use Rattle.rules.specs.Explored.{refused, reported, verdict_site}
use Rattle.rules.specs.Explorer.{Stop, Verdict}
use Rattle.report.specs.declared.Answer.{Answer}
use Rattle.report.specs.declared.Answer.TheVariants as answer
use Rattle.report.specs.Answers.{SaysAs, AnswerFits, refusal, ran_report}

pub fits : (a : Answer) (v : Verdict) → AnswerFits a v → SaysAs a v
unfolding verdict_site
fits answer.Exhausted v e = rw e (record { number = refl; kind = refl; other = refl; thread = refl; row = refl })
fits answer.Spent v e = rw e (record { number = refl; kind = refl; other = refl; thread = refl; row = refl })
fits answer.BadSettings v e = absurd e
fits answer.BadPath v e = absurd e
fits answer.BadTrace v e = absurd e
fits (answer.BadTable t k) v e = absurd e
fits (answer.Stopped f s) v e = rw e (record { number = refl; kind = refl; other = refl; thread = refl; row = refl })
fits answer.Unmet v e = rw e (record { number = refl; kind = refl; other = refl; thread = refl; row = refl })

so-reported : (a : Answer) (r : Stop State) → SaysAs a r.verdict → ran_report a r.walk.ledger.begun r.walk.ledger.opened (open_in r.walk.ledger.path) r.walk.state ≡ reported r
unfolding reported
so-reported a r h = cc

pub ran-reported : (a : Answer) (r : Stop State) → AnswerFits a r.verdict → ran_report a r.walk.ledger.begun r.walk.ledger.opened (open_in r.walk.ledger.path) r.walk.state ≡ reported r
ran-reported a r h = so-reported a r (fits a r.verdict h)

module _ (path trace : List ℕ) where
  pub bad-settings : refusal answer.BadSettings ≡ (refused 2 255 255 path trace).report
  unfolding refused
  bad-settings = refl

  pub bad-path : refusal answer.BadPath ≡ (refused 3 255 255 path trace).report
  unfolding refused
  bad-path = refl

  pub bad-trace : refusal answer.BadTrace ≡ (refused 4 255 255 path trace).report
  unfolding refused
  bad-trace = refl

  pub bad-table : (t k : ℕ) → refusal (answer.BadTable t k) ≡ (refused 5 t k path trace).report
  unfolding refused
  bad-table t k = refl
