use Rattle.sok_alone.proofs.closing.run_from.Given as goal

abbrev pub ghost-run : goal.ghost-run
ghost-run a = a.first.now
