use Rattle.q3_chan.proofs.Scrambled.{side_twice_is_none, side_front_stays, side_bytes_stay}
use Rattle.q3_chan.proofs.laws.ends_scramble.Goals as goal

pub returns-clause-twice : goal.returns-clause-twice
returns-clause-twice c = side_twice_is_none

pub returns-clause-front : goal.returns-clause-front
returns-clause-front c = side_front_stays

pub returns-clause-bytes : goal.returns-clause-bytes
returns-clause-bytes c = side_bytes_stay
