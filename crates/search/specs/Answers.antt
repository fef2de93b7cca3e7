-- What a search answers, of the model that it computes (specs/Search.antt of crate theory).
use Rattle.std.specs.Prelude.{◌≡◌, List, ℕ, length, Option, Some, None}
use Rattle.rule.specs.declared.Edge.{Edge}
use Rattle.theory.specs.Search.{Waiting, Result, turns, search}
use Rattle.theory.specs.Search.Result.{found, going}
use Rattle.reaching.specs.declared.waiting.Queue.{Queue}
use Rattle.reaching.specs.Setting.{HoldsWaiting, SearchState}
use Rattle.reaching.specs.Trying.{Comes}
use Rattle.search.specs.declared.End.{End}
use Rattle.search.specs.Given.{Given, Sought}

-- the answer is what the model has come to: its end, or none, and n edges wait then
abbrev pub Answers : (Waiting → Type 0) → Result → (n : ℕ) → Option End → Type 0
Answers P model n (Some end) = Comes P (found end.place end.forest) model
Answers P model n None = Comes (λ w. (n ≡ length w.queue) × P w) going model

-- the turns of the first places, and the arrays after them
abbrev pub Turned : {a k : ℕ} {ones others colours forests root way edge : List ℕ} → Given a k ones others colours forests root way edge
    → (queue from seen : List ℕ) (places n : ℕ) → Option End → Type 0
Turned {edge = edge} g queue from seen places =
    Answers (SearchState g.d g.forest edge g.size queue from seen) (turns g.d g.forest g.d.m places)

-- the whole search, and what waits at its end
abbrev pub Searched : {a k : ℕ} {ones others colours forests root way edge : List ℕ} → Given a k ones others colours forests root way edge
    → (queue from : List ℕ) (n : ℕ) → Option End → Type 0
Searched g queue from = Answers (λ w. HoldsWaiting w queue from) (search g.d g.forest g.d.m)

-- ---- said of a queue

abbrev pub TurnedIn : {a k : ℕ} {ones others colours forests root way edge : List ℕ} → Given a k ones others colours forests root way edge
    → Queue → (places : ℕ) → Option End → Type 0
TurnedIn g Q places = Turned g Q.edges Q.from Q.seen places Q.size

abbrev pub SearchedFor : {a k : ℕ} {ones others colours forests root way edge : List ℕ} → Given a k ones others colours forests root way edge
    → Queue → Option End → Type 0
SearchedFor g Q = Searched g Q.edges Q.from Q.size

abbrev pub SearchedIn : {a k : ℕ} {is : Edge} {number : ℕ} {ones others colours forests root way edge : List ℕ}
    → Sought a k is number ones others colours forests root way edge → Queue → Option End → Type 0
SearchedIn s = SearchedFor s.given
