use Rattle.sok_alone.proofs.expanding.expand.Given as goal

abbrev pub ghost-follow_all : goal.ghost-follow_all
ghost-follow_all g a = g.start
