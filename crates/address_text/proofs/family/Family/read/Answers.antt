use Rattle.address_text.proofs.family.Family.read.Goals as goal

pub returns-in-Err-clause-cases : goal.returns-in-Err-clause-cases
returns-in-Err-clause-cases c = λ n. rw c.in-V4.is (λ h. c.in-Err.ensures.value h.0 h.1)

pub returns-in-Err-parse-clause-cases : goal.returns-in-Err-parse-clause-cases
returns-in-Err-parse-clause-cases c = λ n. rw c.in-V6.is (λ h. c.in-Err-parse.ensures.value h.0 h.1)
