-- How a fault of the solver is passed on.
use Rattle.sok_search.specs.declared.fault.SolveFault.{SolveFault}
use Rattle.sok_search.specs.declared.fault.SolveFault.TheVariants as solve
use Rattle.sok_engine.specs.Faults.{of_board}
use Rattle.sok_engine.specs.declared.fault.ToolFault.{ToolFault}
use Rattle.sok_engine.specs.declared.fault.ToolFault.TheVariants as tool

abbrev pub of_solve : SolveFault → ToolFault
of_solve solve.BadLimit = tool.BadLimit
of_solve (solve.Level fault) = of_board fault
of_solve solve.Memory = tool.Memory
