use Rattle.q3_chan.proofs.Scrambled.{twice_is_none, front_stays, bytes_stay_bytes}
use Rattle.q3_chan.proofs.laws.scrambled_twice.Goals as goal

pub returns-clause-twice : goal.returns-clause-twice
returns-clause-twice c = twice_is_none

pub returns-clause-front : goal.returns-clause-front
returns-clause-front c = front_stays

pub returns-clause-bytes : goal.returns-clause-bytes
returns-clause-bytes c = bytes_stay_bytes
