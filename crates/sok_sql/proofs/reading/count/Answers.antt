use Rattle.sok_sql.proofs.reading.count.Goals as goal

pub returns-clause-cause : goal.returns-clause-cause
returns-clause-cause g c clean leaves holds few = c.in-Err.ensures.cause clean (λ up. (holds up).schema)
