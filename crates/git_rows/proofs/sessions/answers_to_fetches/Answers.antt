use Rattle.std.proofs.Common.{[], ◌∷◌, ◌++◌, codes, refl, arith}
use Rattle.git_names.specs.Digits.{lower_digit}
use Rattle.hex.specs.Hex.{encode_with}
use Rattle.git_pkt.specs.Bands.{AreBands}
use Rattle.git_pkt.specs.Packets.{delim, flush, payload}
use Rattle.git_pkt.specs.declared.band.Band.TheVariants.{Pack}
use Rattle.git_msg.specs.WrittenRequest.{text_line}
use Rattle.git_rows.specs.Worked.{all_a}
use Rattle.git_rows.proofs.ServedRequests.{pack_answer}
use Rattle.git_rows.proofs.sessions.answers_to_fetches.Goals as goal

whole : AreBands Pack (codes "PACK!") (payload (1 ∷ codes "PACK!") ∷ [])
whole = (codes "PACK!", [], refl, omega arith, omega arith, refl, refl)

pub returns-clause-one_common : goal.returns-clause-one_common
unfolding encode_with lower_digit
returns-clause-one_common c = refl

pub returns-clause-is_ready : goal.returns-clause-is_ready
unfolding encode_with lower_digit
returns-clause-is_ready c = record {
  others = text_line (codes "shallow-info") ∷ text_line (codes "shallow " ++ all_a) ∷ delim ∷ text_line (codes "packfile")
      ∷ payload (1 ∷ codes "PACK!") ∷ flush ∷ [];
  holds = record {
    others = text_line (codes "packfile") ∷ payload (1 ∷ codes "PACK!") ∷ flush ∷ [];
    holds = record {
      others = text_line (codes "packfile") ∷ payload (1 ∷ codes "PACK!") ∷ flush ∷ [];
      holds = record {
        tail = payload (1 ∷ codes "PACK!") ∷ flush ∷ [];
        ends = record { bands = payload (1 ∷ codes "PACK!") ∷ []; are_bands = whole; packets_are = refl };
        packets_are = refl;
      };
      packets_are = refl;
    };
    packets_are = refl;
  };
  packets_are = refl;
}

pub returns-clause-done : goal.returns-clause-done
returns-clause-done c = pack_answer (payload (1 ∷ codes "PACK!") ∷ []) whole
