use Rattle.std.proofs.lemmas.Result.{on_ok_weaker}
use Rattle.msvc_debug.proofs.Texts.{named, named_last}
use Rattle.msvc_debug.specs.Words.{class_names}
use Rattle.msvc_debug.proofs.words.write_class.Goals as goal

pub returns : goal.returns
unfolding class_names
returns g c = on_ok_weaker c.write_word_if-8.result
    (λ last. named _ _ _ _ _ _ _ (c.contains.ensures tt) c.in_ok-write_word_if.ensures
    (named _ _ _ _ _ _ _ (c.contains-2.ensures tt) c.in_ok-write_word_if-2.ensures
    (named _ _ _ _ _ _ _ (c.contains-3.ensures tt) c.in_ok-write_word_if-3.ensures
    (named _ _ _ _ _ _ _ (c.contains-4.ensures tt) c.in_ok-write_word_if-4.ensures
    (named _ _ _ _ _ _ _ (c.contains-5.ensures tt) c.in_ok-write_word_if-5.ensures
    (named _ _ _ _ _ _ _ (c.contains-6.ensures tt) c.in_ok-write_word_if-6.ensures
    (named _ _ _ _ _ _ _ (c.contains-7.ensures tt) c.in_ok-write_word_if-7.ensures
    (named_last _ _ _ _ _ (c.contains-8.ensures tt) last))))))))
    c.write_word_if-8.ensures
