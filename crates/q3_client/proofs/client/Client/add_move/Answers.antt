use Rattle.std.proofs.Common.{rules}
use Rattle.q3_client.specs.declared.moves.Issued.{Issued}
use Rattle.q3_client.proofs.Begins.{moves_pushed}
use Rattle.q3_client.proofs.client.Client.add_move.Goals as goal

pub invariant_of-self : goal.invariant_of-self
invariant_of-self c =
    let was = c.self.invariant in
    let issued : Issued = record { begun = c.number.result; one = c.args.one.now } in (
      was.0,
      was.1,
      was.2,
      search rules,
      moves_pushed c.self.inside.moves.items c.push_back.new.self.items c.self.inside.moves.capacity issued (search rules) (c.is_issuable.ensures.fits (search rules)) was.4,
      was.5,
      was.6,
    )
