-- The head of a snapshot.
use Rattle.std.specs.Prelude.{[]}
use Rattle.q3_player.specs.declared.head.SnapHead.{SnapHead}
use Rattle.q3_player.specs.State.{zero_player}

-- the head with nothing in it
unfoldable pub empty_head : SnapHead
empty_head = record { number = 0; time = 0; flags = 0; area = record { items = [] }; player = zero_player }
