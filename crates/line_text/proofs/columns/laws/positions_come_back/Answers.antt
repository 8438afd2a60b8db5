-- Piece by piece.
use Rattle.line_text.proofs.lemmas.columns.PiecesBack.{pieces-back}
use Rattle.line_text.proofs.columns.laws.positions_come_back.Goals as goal

pub returns : goal.returns
returns c = λ ps bytes are. pieces-back ps bytes are.first are.rising
