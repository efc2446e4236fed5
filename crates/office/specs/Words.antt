-- The word for each verdict.
use Rattle.std.specs.Prelude.{ℕ, List, codes}
use Rattle.office.specs.declared.verdict.Verdict.{Verdict}
use Rattle.office.specs.declared.verdict.Verdict.TheVariants.{Done, Certify, Back, Clash, Catch, Wait}

abbrev pub word_of : Verdict → List ℕ
word_of (Done answer) = codes "DONE"
word_of Certify = codes "CERTIFY"
word_of Back = codes "BACK"
word_of Clash = codes "CLASH"
word_of (Catch site) = codes "CATCH"
word_of Wait = codes "WAIT"
