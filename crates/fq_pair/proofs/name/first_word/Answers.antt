use Rattle.fq_pair.proofs.NameLemmas.{word_is}
use Rattle.fq_pair.proofs.name.first_word.Goals as goal

-- a title up to the blank or tab that was found, or all of it, is its first word
pub returns : goal.returns
returns c = word_is c.args.title.now c.memchr2.result c.unwrap_or-end.result c.memchr2.ensures
    c.unwrap_or-end.ensures
