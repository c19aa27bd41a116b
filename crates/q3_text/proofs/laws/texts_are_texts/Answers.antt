use Rattle.q3_text.proofs.Translation.{texts, stays, made}
use Rattle.q3_text.proofs.laws.texts_are_texts.Goals as goal

pub returns : goal.returns
returns c = record { texts = texts; stay = stays; made = made }
