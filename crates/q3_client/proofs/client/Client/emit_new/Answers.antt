use Rattle.std.proofs.Common.{◌≤◌, length, rules, arith}
use Rattle.q3_client.specs.contracts.client.Client.{the_view}
use Rattle.q3_client.proofs.Begins.{begins_new}
use Rattle.q3_client.proofs.client.Client.emit_new.Goals as goal

pub returns-clause-began : goal.returns-clause-began
returns-clause-began c =
    let few : length c.self.inside.moves.items ≤ 32 = search rules in
    rw (← c.self.view_is) (begins_new c.numbered_are_commands.ensures (the_view c.self.inside)
    (record { applied = c.write_scrambled.ensures.stands; taken = omega arith; window = c.write_scrambled.ensures.window; few = few; moves = c.self.invariant.4 }))
