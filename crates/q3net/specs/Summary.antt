-- What a trial prints: how much of each kind the report of its replay has.
use Rattle.std.specs.Prelude.{ℕ, List, [], ◌∷◌, codes, decimal}
use Rattle.std.specs.List.{concat}
use Rattle.q3_counts.specs.declared.counts.Counts.{Counts}

-- a line for each count
unfoldable pub summary_text : Counts → List ℕ
summary_text counts =
    concat (codes "events " ∷ decimal counts.events
    ∷ codes "\ndatagrams " ∷ decimal counts.datagrams
    ∷ codes "\naccepted " ∷ decimal counts.accepted
    ∷ codes "\nskipped " ∷ decimal counts.skipped
    ∷ codes "\nserver commands " ∷ decimal counts.server_commands
    ∷ codes "\nclient commands " ∷ decimal counts.client_commands
    ∷ codes "\nmoves " ∷ decimal counts.moves
    ∷ codes "\n" ∷ [])
