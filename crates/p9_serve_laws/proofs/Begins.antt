-- Where two servers begin side by side.
use Rattle.std.proofs.Common.{refl, ap}
use Rattle.std.specs.Option.{option_map}
use Rattle.p9_clients.specs.Serving.{slot_at}
use Rattle.p9_serve_laws.specs.Beside.{NewServersAreTwins, TwinsAreBeside, without_stream}

pub new-servers-are-twins : {S : Type 0} → NewServersAreTwins S
new-servers-are-twins a b guards = record {
  serving = record { guards = guards; slots = refl };
  pace = refl;
}

pub twins-are-beside : {S : Type 0} → TwinsAreBeside S
twins-are-beside a b twins = record {
  serving = record {
    guards = twins.serving.guards;
    links = λ key. ap (λ slots. option_map without_stream (slot_at slots key)) twins.serving.slots;
  };
  pace = twins.pace;
}
