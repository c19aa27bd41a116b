-- Lists of moves: those that a client issued, those that a message carries, and those that the server ran.
use Rattle.std.specs.Prelude.{◌≡◌, ℕ, ◌<◌, List, [], ◌∷◌, ◌++◌}
use Rattle.q3_clmsg.specs.declared.moves.Move.{Move}

-- the times of moves rise, from above a time on
abbrev pub TimesRise : ℕ → List Move → Type 0
TimesRise before [] = Unit {0}
TimesRise before (one ∷ moves) = (before < one.time) × TimesRise one.time moves

-- moves were issued one directly after the other
abbrev pub AreConsecutive : List Move → List Move → Type 0
AreConsecutive moves issued = (before : List Move) × (after : List Move) × (issued ≡ before ++ moves ++ after)

-- moves stand among those that were issued, each once and in their order
abbrev pub StandAmong : List Move → List Move → Type 0
StandAmong [] issued = Unit {0}
StandAmong (one ∷ moves) issued = (before : List Move) × (after : List Move) × (issued ≡ before ++ one ∷ after) × StandAmong moves after
