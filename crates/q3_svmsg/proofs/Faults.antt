-- A section that doesn't read.
use Rattle.std.proofs.Common.{◌≡◌, ℕ, Bool, List, Err, refl}
use Rattle.q3_profile.specs.declared.profile.Profile.{Profile}
use Rattle.q3_svmsg.specs.declared.error.Illegible.{Illegible}
use Rattle.q3_svmsg.specs.Values.{Context, Message}
use Rattle.q3_svmsg.specs.Reading.{section_at, rest_at}

pub snapshot_fault : (profile : Profile) (context : Context) (number operation : ℕ) (message : Message) (bits : List Bool) (e : Illegible) → operation ≡ 7
    → Err e ≡ section_at profile context number bits → Err e ≡ rest_at profile context number operation message bits
unfolding rest_at
snapshot_fault profile context number operation message bits e here is = rw (here, ← is) refl
