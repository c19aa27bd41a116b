use Rattle.q3_text.proofs.laws.text_laws.Goals as goal

pub returns : goal.returns
returns c = record {
  texts = c.texts_are_texts.ensures.texts;
  stay = c.texts_are_texts.ensures.stay;
  made = c.texts_are_texts.ensures.made;
  numbers = c.decimals_are_numbers.ensures;
  cuts = c.cuts_are_first.ensures;
}
