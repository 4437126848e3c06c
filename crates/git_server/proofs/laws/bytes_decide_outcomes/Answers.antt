use Rattle.git_server.proofs.laws.bytes_decide_outcomes.Goals as goal

pub returns : goal.returns
returns c = record {
  flush = record { by_memory = λ none. none; by_pack = λ none. none };
  closed = record { by_memory = λ none. none; by_pack = λ none. none };
  refused = λ fault memory pack. record { by_memory = memory; by_pack = pack };
}
