use Rattle.sok_alone.proofs.expanding.run.Given as goal

abbrev pub ghost-meet : goal.ghost-meet
ghost-meet g a = g.start

abbrev pub ghost-expand_all : goal.ghost-expand_all
ghost-expand_all g a = g.start
