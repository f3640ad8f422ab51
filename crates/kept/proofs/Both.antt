-- Two things that a machine keeps are kept together. Assumes nothing.
--     Together, AskedTogether     the one and the other
--     both                        are kept
use Prim.Native.Nat.{ℕ}
use Rattle.rules.specs.Event.{Machine, Move, moves, asks, stops, ends}
use Rattle.kept.specs.Kept.{Holding, Asking, OfNext, OfAnswer, Keeps}

abbrev pub Together : (M : Machine) → Holding M → Holding M → Holding M
Together M F G s n = F s n × G s n

abbrev pub AskedTogether : (M : Machine) → Asking M → Asking M → Asking M
AskedTogether M A B s n q = A s n q × B s n q

module _ (M : Machine) (F : Holding M) (A : Asking M) (O : Holding M) (G : Holding M) (B : Asking M) (P : Holding M)
    (one : Keeps M F A O) (other : Keeps M G B P) where
  abbrev Holds : Holding M
  Holds = Together M F G

  abbrev Asked : Asking M
  Asked = AskedTogether M A B

  abbrev Over : Holding M
  Over = Together M O P

  next_both : (n : ℕ) (e : Move M.State) → OfNext M F A O n e → OfNext M G B P n e → OfNext M Holds Asked Over n e
  next_both n (moves s es) h k = (h, k)
  next_both n (asks s es x q) h k = (h, k)
  next_both n (stops s f) h k = (h, k)
  next_both n (ends s) h k = (h, k)

  answer-both : (n : ℕ) (e : Move M.State) → OfAnswer M F O n e → OfAnswer M G P n e → OfAnswer M Holds Over n e
  answer-both n (moves s es) h k = (h, k)
  answer-both n (asks s es x q) h k = h
  answer-both n (stops s f) h k = (h, k)
  answer-both n (ends s) h k = (h, k)

  pub both : Keeps M Holds Asked Over
  both = record {
    at-start = (one.at-start, other.at-start);
    at_next = λ s n h. next_both n (M.next s).move (one.at_next s n h.0) (other.at_next s n h.1);
    at-answer = λ s n q a h f. answer-both n (M.answered s a) (one.at-answer s n q a h.0 f) (other.at-answer s n q a h.1 f);
    at-question = λ s n q h. (one.at-question s n q h.0, other.at-question s n q h.1);
    at_tick = λ s n h. (one.at_tick s n h.0, other.at_tick s n h.1);
  }
