-- How far what a state counts may go.
use Rattle.std.specs.Prelude.{ℕ, ◌^◌, ◌<◌, ◌≤◌, All, IfSome}
use Rattle.q3_clstate.specs.State.{AppliedState}

-- messages have numbers below 2^31, and what is held is at most so old
pub record IsWithin (most : ℕ) (state : AppliedState) : Type 0 where
  pub number : state.number < 2 ^ 31
  pub newest : state.held.newest < 2 ^ 31
  pub ages : All (λ place. IfSome place (λ held. held.age ≤ most)) state.held.places
