-- Laws of indexes.
use Rattle.std.specs.Prelude.{◌≡◌, ℕ, ◌*◌, ◌/◌, ◌<◌, ◌≤◌, List, length, Ok}
use Rattle.q3_profile.specs.declared.profile.Profile.{Profile}
use Rattle.q3_profile.specs.Profile.{IsCodec}
use Rattle.q3_demo.specs.Playing.{Played, records_of, play_state}
use Rattle.q3_index.specs.declared.opening.Version.{Version}
use Rattle.q3_index.specs.Text.{spacing, Tells, index_by}
use Rattle.q3_index.specs.Opening.{Heads, open_at}
use Rattle.q3_index.specs.Seeking.{start_at, seek_at, played_after}

-- the index of a demo opens with it, by each version
abbrev pub IndexOpens : Type 0
IndexOpens = (version : Version) (profile : Profile) (demo index : List ℕ) → Tells version profile.entity.number_bits → IsCodec profile → 512 ≤ profile.parse_ring → profile.mark < 18446744073709551616 → length demo < 18446744073709551616
    → index_by version profile demo ≡ Ok index → (heads : Heads) × (open_at (length demo) profile.mark profile.entity.number_bits index ≡ Ok heads) × (heads.records ≡ length (records_of profile demo))

-- and sought in it is what playing leaves
abbrev pub SeekingIsPlaying : Type 0
SeekingIsPlaying = (version : Version) (profile : Profile) (demo index : List ℕ) (heads : Heads) (number : ℕ) → Tells version profile.entity.number_bits → IsCodec profile → 512 ≤ profile.parse_ring → profile.mark < 18446744073709551616 → length demo < 18446744073709551616
    → index_by version profile demo ≡ Ok index → open_at (length demo) profile.mark profile.entity.number_bits index ≡ Ok heads → number ≤ length (records_of profile demo)
    → (played : Played) × (play_state profile demo number ≡ Ok played) × (seek_at profile demo index heads.records heads.checkpoints number ≡ Ok played)

-- a seek begins after the last 256th record at or below so many, and goes on until so many are played
abbrev pub SeekingGoesOn : Type 0
SeekingGoesOn = (version : Version) (profile : Profile) (demo index : List ℕ) (heads : Heads) (number : ℕ) → Tells version profile.entity.number_bits → IsCodec profile → 512 ≤ profile.parse_ring → profile.mark < 18446744073709551616 → length demo < 18446744073709551616
    → index_by version profile demo ≡ Ok index → open_at (length demo) profile.mark profile.entity.number_bits index ≡ Ok heads → number ≤ length (records_of profile demo)
    → (start_at profile index heads.checkpoints number ≡ Ok (played_after profile demo (spacing * (number / spacing))))
    × (seek_at profile demo index heads.records heads.checkpoints number ≡ Ok (played_after profile demo number))
