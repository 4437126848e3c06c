use Rattle.std.proofs.Common.{[], refl}
use Rattle.std.proofs.lemmas.List.Elements.{All-nil}
use Rattle.git_msg.specs.Asked.{HasValues}
use Rattle.git_laws.proofs.NeitherWaits.{one_more_call}
use Rattle.git_laws.proofs.meeting_laws.ends_meet_call_by_call.Goals as goal

pub returns : goal.returns
returns g c = record {
  none = λ format limit before server client sound written same new_server new_client. record {
    first = record { server = server; client = client; to_server = []; to_client = [] };
    new_server = new_server;
    new_client = new_client;
    none_to_server = refl;
    none_to_client = refl;
    moved = refl;
    sound = sound;
    written = written;
    same_format = same;
    values = All-nil (HasValues format);
  };
  more = λ format limit before calls call now next met moves values.
      one_more_call g.R.Repo.state g.A.Memory.refuses format limit before calls call now next met moves values;
}
