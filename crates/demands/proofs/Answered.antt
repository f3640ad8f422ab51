-- Demand 1: which of document 01's answers is given, and what is left. Assumes nothing.
--     Case, which_case     the checks of `explored`, one after another, and what it then is
--     fault-number        a fault's number is that of no other answer
--     not-refusal         a verdict is no refusal
--     true-false          nothing is both
--     answered            demand 1
use Prim.Native.Nat.{ℕ, ◌*◌, ◌≤◌}
use mathlib.Core.List.{List}
use mathlib.Core.Bool.{Bool, true, false, cond}
use mathlib.Core.Path.{◌≡◌, refl, sym, ap, ◌∙◌}
use mathlib.Core.Logic.{◌≢◌, inl, inr}
use native.Mathlib.Omega.{arith}
use lib.Dec.{eqb}
use lib.ListN.{length}
use borrow.Author.Tests.{eqb-true, eqb-false, le-leb, lt-leb}
use Rattle.rules.specs.Path.{written, record_bytes}
use Rattle.rules.specs.Table as Table
use Rattle.rules.specs.Table.{judged, good, bad_header, bad_row, threads_of}
use Rattle.rules.specs.Condition.{is_condition}
use Rattle.rules.specs.Event as Event
use Rattle.rules.specs.Event.{Site}
use Rattle.rules.specs.Explorer.{Verdict, exhausted, spent, unmet, stopped}
use Rattle.rules.specs.Explored.{Settings, Explored, refused, ran, reported, is_refusal, settings_fine, stop_of, trace_left, verdict_number}
use Rattle.rules.proofs.ExploredLaws.{explored-2, explored-3, explored-4, explored-5-header, explored-5-row, explored-5-condition, explored-ran}
use Rattle.offers.specs.Offered.{Among}
use Rattle.demands.specs.Demands.{right, Answered, SettingsInRange, PathFits, TraceFits, BadInput, it, report, run, the_answers}

-- A verdict's number

pub data Numbered (n : ℕ) : Type 0 where
  ended : n ≤ 1 → Numbered n
  faulty : 10 ≤ n → Numbered n

-- a fault's number is from 10 on, and none is 18
pub fault-number : (f : Event.Fault) → (10 ≤ Event.fault_number f) × (Event.fault_number f ≢ 18)
fault-number Event.deadlock = (omega arith, λ e. omega (arith, e))
fault-number Event.full = (omega arith, λ e. omega (arith, e))
fault-number Event.rows = (omega arith, λ e. omega (arith, e))
fault-number Event.equal_orders = (omega arith, λ e. omega (arith, e))
fault-number (Event.race k t) = (omega arith, λ e. omega (arith, e))
fault-number Event.check = (omega arith, λ e. omega (arith, e))
fault-number Event.flags = (omega arith, λ e. omega (arith, e))
fault-number Event.preemptions = (omega arith, λ e. omega (arith, e))
fault-number Event.impossible = (omega arith, λ e. omega (arith, e))

pub numbered : (v : Verdict) → Numbered (verdict_number v)
numbered exhausted = ended (omega arith)
numbered spent = ended (omega arith)
numbered unmet = faulty (omega arith)
numbered (stopped f site) = faulty (fault-number f).0

no-refusal : (n : ℕ) → Numbered n → is_refusal n ≡ false
no-refusal n (ended h) = rw (lt-leb 2 n (omega arith)) refl
no-refusal n (faulty h) = rw (le-leb 2 n (omega arith), lt-leb n 5 (omega arith)) refl

pub not-refusal : (v : Verdict) → is_refusal (verdict_number v) ≡ false
not-refusal v = no-refusal (verdict_number v) (numbered v)

among-answers : (v : Verdict) → ((site : Site) → v ≡ stopped Event.impossible site → ⊥) → Among (verdict_number v) the_answers
among-answers exhausted h = (0, omega arith, refl)
among-answers spent h = (1, omega arith, refl)
among-answers unmet h = (14, omega arith, refl)
among-answers (stopped Event.deadlock site) h = (6, omega arith, refl)
among-answers (stopped Event.full site) h = (7, omega arith, refl)
among-answers (stopped Event.rows site) h = (8, omega arith, refl)
among-answers (stopped Event.equal_orders site) h = (9, omega arith, refl)
among-answers (stopped (Event.race k t) site) h = (10, omega arith, refl)
among-answers (stopped Event.check site) h = (11, omega arith, refl)
among-answers (stopped Event.flags site) h = (12, omega arith, refl)
among-answers (stopped Event.preemptions site) h = (13, omega arith, refl)
among-answers (stopped Event.impossible site) h = absurd (h site refl)

-- How a table is judged

abbrev sort : Table.Judged → ℕ
sort good = 0
sort bad_header = 1
sort (bad_row t k) = 2

abbrev place : Table.Judged → ℕ × ℕ
place good = (0, 0)
place bad_header = (0, 0)
place (bad_row t k) = (t, k)

pub true-false : {b : Bool} → b ≡ true → b ≡ false → ⊥
true-false {b} e f = let z : ◌≡◌ {A = ℕ} 1 0 = ap (λ (x : Bool). cond x 1 0) (sym e ∙ f) in omega arith

another : {j k l : Table.Judged} → j ≡ k → j ≡ l → (sort k ≡ sort l → ⊥) → ⊥
another e f h = h (ap sort (sym e ∙ f))

same_row : {t k u l : ℕ} → bad_row t k ≡ bad_row u l → (t ≡ u) × (k ≡ l)
same_row e = (ap (λ (j : Table.Judged). (place j).0) e, ap (λ (j : Table.Judged). (place j).1) e)

module _ (table condition : List ℕ) (s : Settings) (path trace : List ℕ) where
  abbrev whole : Explored
  whole = it right table condition s path trace

  abbrev fine : Type 0
  fine = SettingsInRange right table condition s path trace

  abbrev pathy : Type 0
  pathy = PathFits right table condition s path trace

  abbrev tracy : Type 0
  tracy = TraceFits right table condition s path trace

  abbrev bad : Type 0
  bad = BadInput right table condition s path trace

  pub data Case : Type 0 where
    bad_settings : settings_fine s ≡ false → whole ≡ refused 2 255 255 path trace → Case
    bad_path : fine → (pathy → ⊥) → whole ≡ refused 3 255 255 path trace → Case
    bad_trace : fine → pathy → (tracy → ⊥) → whole ≡ refused 4 255 255 path trace → Case
    bad_table : fine → pathy → tracy → (t k : ℕ) → bad → (judged table ≡ bad_header → (t ≡ 255) × (k ≡ 255))
        → ((u l : ℕ) → judged table ≡ bad_row u l → (t ≡ u) × (k ≡ l)) → (judged table ≡ good → (t ≡ 255) × (k ≡ 255)) → whole ≡ refused 5 t k path trace → Case
    runs : fine → pathy → tracy → judged table ≡ good → is_condition (threads_of table) condition ≡ true → whole ≡ ran (length path) (length trace) (stop_of table condition s) → Case

  pub which_case : Case
  which_case = by_settings (settings_fine s) refl
    where
      by_condition : fine → pathy → tracy → judged table ≡ good → (x : Bool) → is_condition (threads_of table) condition ≡ x → Case
      by_condition a b c d true e = runs a b c d e (explored-ran table condition s path trace a b c d e)
      by_condition a b c d false e =
          bad_table a b c 255 255 (inr e) (λ f. (refl, refl)) (λ u l f. absurd (another d f (λ (z : ◌≡◌ {A = ℕ} 0 2). omega arith))) (λ f. (refl, refl)) (explored-5-condition table condition s path trace a b c d e)

      by_table : fine → pathy → tracy → (j : Table.Judged) → judged table ≡ j → Case
      by_table a b c bad_header e =
          bad_table a b c 255 255 (inl (λ f. another e f (λ (z : ◌≡◌ {A = ℕ} 1 0). omega arith))) (λ f. (refl, refl)) (λ u l f. absurd (another e f (λ (z : ◌≡◌ {A = ℕ} 1 2). omega arith))) (λ f. (refl, refl)) (explored-5-header table condition s path trace a b c e)
      by_table a b c (bad_row t k) e =
          bad_table a b c t k (inl (λ f. another e f (λ (z : ◌≡◌ {A = ℕ} 2 0). omega arith))) (λ f. absurd (another e f (λ (z : ◌≡◌ {A = ℕ} 2 1). omega arith))) (λ u l f. same_row (sym e ∙ f)) (λ f. absurd (another e f (λ (z : ◌≡◌ {A = ℕ} 2 0). omega arith))) (explored-5-row table condition s path trace a b c t k e)
      by_table a b c good e = by_condition a b c e (is_condition (threads_of table) condition) refl

      by_trace : fine → pathy → (x : Bool) → eqb (length trace) (record_bytes * s.operations) ≡ x → Case
      by_trace a b true e = by_table a b (eqb-true (length trace) (record_bytes * s.operations) e) (judged table) refl
      by_trace a b false e =
          let n = eqb-false (length trace) (record_bytes * s.operations) e in bad_trace a b n (explored-4 table condition s path trace a b n)

      by_path : fine → (x : Bool) → eqb (length path) (record_bytes * s.branches) ≡ x → Case
      by_path a true e =
          by_trace a (eqb-true (length path) (record_bytes * s.branches) e) (eqb (length trace) (record_bytes * s.operations)) refl
      by_path a false e = let n = eqb-false (length path) (record_bytes * s.branches) e in bad_path a n (explored-3 table condition s path trace a n)

      by_settings : (x : Bool) → settings_fine s ≡ x → Case
      by_settings true e = by_path e (eqb (length path) (record_bytes * s.branches)) refl
      by_settings false e = bad_settings e (explored-2 table condition s path trace e)

  -- the answer of each
  refused-number : (n t k : ℕ) → whole ≡ refused n t k path trace → ((report right table condition s path trace).answer ≡ n) × ((report right table condition s path trace).thread ≡ t) × ((report right table condition s path trace).row ≡ k)
  unfolding refused
  refused-number n t k e =
      (ap (λ (x : Explored). x.report.answer) e, ap (λ (x : Explored). x.report.thread) e, ap (λ (x : Explored). x.report.row) e)

  pub ran-number : whole ≡ ran (length path) (length trace) (stop_of table condition s) → (report right table condition s path trace).answer ≡ verdict_number (run right table condition s path trace).verdict
  unfolding ran reported
  ran-number e = ap (λ (x : Explored). x.report.answer) e

  -- a run's number is none of the refusals'
  ran-not : (n : ℕ) → 2 ≤ n → n ≤ 5 → whole ≡ ran (length path) (length trace) (stop_of table condition s) → (report right table condition s path trace).answer ≢ n
  ran-not n h k e f = go (numbered (run right table condition s path trace).verdict)
    where
      go : Numbered (verdict_number (run right table condition s path trace).verdict) → ⊥
      go (ended l) = omega (arith, ran-number e)
      go (faulty l) = omega (arith, ran-number e)

  refused_as : (n t k : ℕ) → whole ≡ refused n t k path trace → whole ≡ refused (report right table condition s path trace).answer (report right table condition s path trace).thread (report right table condition s path trace).row path trace
  refused_as n t k e = let z = refused-number n t k e in e ∙ (cc (z.0, z.1, z.2))

  -- Which reason an answer has

  abbrev answer : ℕ
  answer = (report right table condition s path trace).answer

  differs : (n m t k : ℕ) → whole ≡ refused m t k path trace → (n ≡ m → ⊥) → answer ≡ n → ⊥
  differs n m t k e h f = h (sym f ∙ (refused-number m t k e).0)

  two-only : Case → answer ≡ 2 → settings_fine s ≡ false
  two-only (bad_settings f e) h = f
  two-only (bad_path a b e) h = absurd (differs 2 3 255 255 e (λ z. omega (arith, z)) h)
  two-only (bad_trace a b c e) h = absurd (differs 2 4 255 255 e (λ z. omega (arith, z)) h)
  two-only (bad_table a b c t k d u v y e) h = absurd (differs 2 5 t k e (λ z. omega (arith, z)) h)
  two-only (runs a b c d g e) h = absurd (ran-not 2 (omega arith) (omega arith) e h)

  three-only : Case → answer ≡ 3 → fine × (pathy → ⊥)
  three-only (bad_settings f e) h = absurd (differs 3 2 255 255 e (λ z. omega (arith, z)) h)
  three-only (bad_path a b e) h = (a, b)
  three-only (bad_trace a b c e) h = absurd (differs 3 4 255 255 e (λ z. omega (arith, z)) h)
  three-only (bad_table a b c t k d u v y e) h = absurd (differs 3 5 t k e (λ z. omega (arith, z)) h)
  three-only (runs a b c d g e) h = absurd (ran-not 3 (omega arith) (omega arith) e h)

  four-only : Case → answer ≡ 4 → fine × pathy × (tracy → ⊥)
  four-only (bad_settings f e) h = absurd (differs 4 2 255 255 e (λ z. omega (arith, z)) h)
  four-only (bad_path a b e) h = absurd (differs 4 3 255 255 e (λ z. omega (arith, z)) h)
  four-only (bad_trace a b c e) h = (a, b, c)
  four-only (bad_table a b c t k d u v y e) h = absurd (differs 4 5 t k e (λ z. omega (arith, z)) h)
  four-only (runs a b c d g e) h = absurd (ran-not 4 (omega arith) (omega arith) e h)

  pub record Bad : Type 0 where
    pub first : fine × pathy × tracy × bad
    pub header : judged table ≡ bad_header → ((report right table condition s path trace).thread ≡ 255) × ((report right table condition s path trace).row ≡ 255)
    pub row : (t k : ℕ) → judged table ≡ bad_row t k → ((report right table condition s path trace).thread ≡ t) × ((report right table condition s path trace).row ≡ k)
    pub claim : judged table ≡ good → ((report right table condition s path trace).thread ≡ 255) × ((report right table condition s path trace).row ≡ 255)

  five-only : Case → answer ≡ 5 → Bad
  five-only (bad_settings f e) h = absurd (differs 5 2 255 255 e (λ z. omega (arith, z)) h)
  five-only (bad_path a b e) h = absurd (differs 5 3 255 255 e (λ z. omega (arith, z)) h)
  five-only (bad_trace a b c e) h = absurd (differs 5 4 255 255 e (λ z. omega (arith, z)) h)
  five-only (bad_table a b c t k d u v y e) h =
      let n = refused-number 5 t k e in
      record {
        first = (a, b, c, d);
        header = λ f. (n.1 ∙ (u f).0, n.2 ∙ (u f).1);
        row = λ x l f. (n.1 ∙ (v x l f).0, n.2 ∙ (v x l f).1);
        claim = λ f. (n.1 ∙ (y f).0, n.2 ∙ (y f).1);
      }
  five-only (runs a b c d g e) h = absurd (ran-not 5 (omega arith) (omega arith) e h)

  not-bad : judged table ≡ good → is_condition (threads_of table) condition ≡ true → bad → ⊥
  not-bad d g (inl f) = f d
  not-bad d g (inr f) = true-false g f

  five-whenever : Case → fine × pathy × tracy × bad → answer ≡ 5
  five-whenever (bad_settings f e) h = absurd (true-false h.0 f)
  five-whenever (bad_path a b e) h = absurd (b h.1)
  five-whenever (bad_trace a b c e) h = absurd (c h.2)
  five-whenever (bad_table a b c t k d u v y e) h = (refused-number 5 t k e).0
  five-whenever (runs a b c d g e) h = absurd (not-bad d g h.3)

  refuses : Case → is_refusal answer ≡ true → whole ≡ refused answer (report right table condition s path trace).thread (report right table condition s path trace).row path trace
  refuses (bad_settings f e) h = refused_as 2 255 255 e
  refuses (bad_path a b e) h = refused_as 3 255 255 e
  refuses (bad_trace a b c e) h = refused_as 4 255 255 e
  refuses (bad_table a b c t k d u v y e) h = refused_as 5 t k e
  refuses (runs a b c d g e) h = absurd (true-false h (ap is_refusal (ran-number e) ∙ not-refusal (run right table condition s path trace).verdict))

  -- what a run has passed, and what it then is
  pub record Ran : Type 0 where
    pub range : fine
    pub path-long : pathy
    pub trace-long : tracy
    pub accepted : judged table ≡ good
    pub is : whole ≡ ran (length path) (length trace) (stop_of table condition s)

  is-no-refusal : (n t k : ℕ) → 2 ≤ n → n ≤ 5 → whole ≡ refused n t k path trace → is_refusal answer ≡ false → ⊥
  is-no-refusal n t k h l e f =
      true-false (ap is_refusal (refused-number n t k e).0 ∙ rw (le-leb 2 n h, le-leb n 5 l) refl) f

  ran-by : Case → is_refusal answer ≡ false → Ran
  ran-by (bad_settings f e) h = absurd (is-no-refusal 2 255 255 (omega arith) (omega arith) e h)
  ran-by (bad_path a b e) h = absurd (is-no-refusal 3 255 255 (omega arith) (omega arith) e h)
  ran-by (bad_trace a b c e) h = absurd (is-no-refusal 4 255 255 (omega arith) (omega arith) e h)
  ran-by (bad_table a b c t k d u v y e) h = absurd (is-no-refusal 5 t k (omega arith) (omega arith) e h)
  ran-by (runs a b c d g e) h = record { range = a; path-long = b; trace-long = c; accepted = d; is = e }

  pub has-run : is_refusal answer ≡ false → Ran
  has-run = ran-by which_case

  among-by : Case → ((r : Ran) (site : Site) → (run right table condition s path trace).verdict ≡ stopped Event.impossible site → ⊥) → Among answer the_answers
  among-by (bad_settings f e) h = (2, omega arith, sym (refused-number 2 255 255 e).0)
  among-by (bad_path a b e) h = (3, omega arith, sym (refused-number 3 255 255 e).0)
  among-by (bad_trace a b c e) h = (4, omega arith, sym (refused-number 4 255 255 e).0)
  among-by (bad_table a b c t k d u v y e) h = (5, omega arith, sym (refused-number 5 t k e).0)
  among-by (runs a b c d g e) h =
      let r : Ran = record { range = a; path-long = b; trace-long = c; accepted = d; is = e } in
      rw (ran-number e) (among-answers (run right table condition s path trace).verdict (h r))

  reported-by : whole ≡ ran (length path) (length trace) (stop_of table condition s) → report right table condition s path trace ≡ reported (run right table condition s path trace)
  unfolding ran
  reported-by e = ap (λ (x : Explored). x.report) e

  left_by : whole ≡ ran (length path) (length trace) (stop_of table condition s)
      → (whole.path ≡ written (length path) (run right table condition s path trace).walk.ledger.path) × (whole.trace ≡ trace_left (length trace) (run right table condition s path trace).walk.trace)
  unfolding ran
  left_by e = (ap (λ (x : Explored). x.path) e, ap (λ (x : Explored). x.trace) e)

  -- where a run that has passed the checks is never impossible
  pub answered : ((r : Ran) (site : Site) → (run right table condition s path trace).verdict ≡ stopped Event.impossible site → ⊥) → Answered right table condition s path trace
  answered never =
      record {
        one = among-by which_case never;
        two = record { only = two-only which_case; whenever = λ f. (refused-number 2 255 255 (explored-2 table condition s path trace f)).0 };
        three = record { only = three-only which_case; whenever = λ f. (refused-number 3 255 255 (explored-3 table condition s path trace f.0 f.1)).0 };
        four = record { only = four-only which_case; whenever = λ f. (refused-number 4 255 255 (explored-4 table condition s path trace f.0 f.1 f.2)).0 };
        five = record { only = λ h. (five-only which_case h).first; whenever = five-whenever which_case };
        header = λ h. (five-only which_case h).header;
        row = λ h. (five-only which_case h).row;
        claim = λ h. (five-only which_case h).claim;
        leaves = refuses which_case;
        reports = λ h. reported-by (has-run h).is;
        ran = λ h. left_by (has-run h).is;
      }
