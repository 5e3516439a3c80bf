-- Bridge: the fault of a piece, as the code holds it.
use Rattle.yl_pieces.specs.declared.piece.PieceFault.{PieceFault}
use Rattle.yl_pieces.specs.Told.{ToldFault}

abbrev pub fault_value : PieceFault → ToldFault
fault_value f = record { place = f.place; kind = f.kind }
