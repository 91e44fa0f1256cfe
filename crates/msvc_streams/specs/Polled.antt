-- How often a reader was polled in a run, and whether its failure is that it was polled too often.
use Rattle.std.specs.Prelude.{ℕ, ◌+◌, ◌<◌, ◌^◌, ◌≡◌, Bool}
use Rattle.msvc_streams.specs.declared.watched.Polls.{Polls}
use Rattle.msvc_streams.specs.declared.watched.ReadFailure.{ReadFailure}

-- the number of polls
abbrev pub polled : Polls → ℕ
polled polls = polls.count

-- the second count has one poll more than the first, and at most 2^64 - 1
abbrev pub Counts : Polls → Polls → Type 0
Counts before after = (polled after ≡ polled before + 1) × (polled after < 2 ^ 64)

-- whether the reader was polled too often; else it failed itself
abbrev pub is_at_limit : ReadFailure → Bool
is_at_limit failure = failure.at_limit
