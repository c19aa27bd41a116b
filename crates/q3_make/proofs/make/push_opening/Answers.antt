use Rattle.q3_make.proofs.MadeScripts.{opening_put}
use Rattle.q3_make.proofs.make.push_opening.Goals as goal

pub returns : goal.returns
returns c =
    rw (c.in_ok-push_first_turns.ensures, c.in_ok-push-2.ensures.items, c.in_ok-push_entities.ensures, c.in_ok-push_baselines.ensures, c.in_ok-push.ensures.items, c.in_ok-push_clients.ensures)
    (opening_put c.args.events.now.items)
