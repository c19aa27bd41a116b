use Rattle.q3_make.proofs.print.print_script.Goals as goal

pub returns-clause-spells : goal.returns-clause-spells
returns-clause-spells g c = c.printed_is_spelled.ensures c.args.events.now c.requires.each c.requires.few c.requires.small
