-- How a table lies in its array.
use Rattle.std.specs.Prelude.{◌≡◌, length, take}
use Rattle.q3_fields.specs.declared.table.Table.TheInside.{Inside}
use Rattle.q3_fields.specs.Kinds.{Layout, IsTable, HasNumberBits}

-- the first kinds, so many
abbrev pub layout_of : Inside → Layout
layout_of t = record { kinds = take t.count t.kinds; number_bits = t.number_bits }

-- they are a table, whose numbers have as many bits as are allowed, and there is a place for each
pub record IsFilled (t : Inside) : Type 0 where
  pub places : length t.kinds ≡ 64
  pub count : t.count ≡ length (take t.count t.kinds)
  pub table : IsTable (layout_of t)
  pub numbers : HasNumberBits t.number_bits
