-- Addresses.
use Rattle.std.specs.Prelude.{◌≡◌, ℕ, ◌<◌, ◌+◌, ◌*◌, List, ◌++◌, codes, decimal, Option, Some}
use Rattle.q3_io.specs.declared.address.Address.{Address}
use Rattle.q3_text.specs.Cuts.{cut_at}
use Rattle.q3_text.specs.Decimals.{number_at}
use Rattle.q3_bits.specs.OptionBind.{◌>>=◌}

-- the host that four numbers name
abbrev pub host_of : ℕ → ℕ → ℕ → ℕ → ℕ
host_of a b c d = 16777216 * a + 65536 * b + 256 * c + d

-- four numbers with dots between them, and after a colon the port
unfoldable pub address_at : List ℕ → Option Address
address_at word = do
  ends ← cut_at 58 word
  first ← cut_at 46 ends.0
  second ← cut_at 46 first.1
  third ← cut_at 46 second.1
  a ← number_at 0 255 first.0
  b ← number_at 0 255 second.0
  c ← number_at 0 255 third.0
  d ← number_at 0 255 third.1
  port ← number_at 1 65535 ends.1
  Some (record { host = host_of a b c d; port = port })

-- an address: four numbers with dots between them, a colon and a port
pub record SpellsAddress (word : List ℕ) (address : Address) : Type 0 where
  pub a : ℕ
  pub b : ℕ
  pub c : ℕ
  pub d : ℕ
  pub bytes : (a < 256) × (b < 256) × (c < 256) × (d < 256)
  pub host : address.host ≡ host_of a b c d
  pub whole : word ≡ decimal a ++ codes "." ++ decimal b ++ codes "." ++ decimal c ++ codes "." ++ decimal d ++ codes ":" ++ decimal address.port
