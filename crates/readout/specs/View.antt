-- The sheet as it is read: what a value of the struct stands for.
use Rattle.model.specs.Sheet as model
use Rattle.readout.specs.declared.Sheet.{Sheet}
use Rattle.readout.specs.Sheet.{sheet_in}

abbrev pub sheet_of : Sheet → model.Sheet
sheet_of x = sheet_in x.price x.work.now x.header
