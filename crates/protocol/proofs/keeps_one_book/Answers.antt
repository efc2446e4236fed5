use Rattle.protocol.proofs.OneBook.{keeps_one_book}
use Rattle.protocol.proofs.keeps_one_book.Goals as goal

pub returns : goal.returns
returns g c pool first T life = keeps_one_book life
