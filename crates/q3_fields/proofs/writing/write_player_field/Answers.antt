use Rattle.q3_fields.proofs.writing.write_player_field.Goals as goal

pub returns : goal.returns
returns c = rw (c.marks_are_joined.ensures.none c.args.w.now.words 0) at c.write_marked.ensures
