use Rattle.figures.proofs.Figures as figures
use Rattle.figures.proofs.worked_figures.Goals as goal

pub returns : goal.returns
returns c = figures.worked_figures
