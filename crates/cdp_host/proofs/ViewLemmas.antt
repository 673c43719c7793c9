-- What a host is seen as.
use Rattle.cdp_host_seats.specs.Fallbacks.{fallback_held}
use Rattle.cdp_host.specs.Hosts.{HostState}
use Rattle.cdp_host.specs.declared.host.Host.TheInside.{Inside}

abbrev pub seen_as : Inside → HostState
seen_as a = record {
  scripts = a.scripts.now;
  meaning = record {
    program = record { machine = a.machine; heap = a.heap };
    phase = a.phase;
    stop = a.stop;
    stops = a.stops;
    shut = a.shut;
    seats = a.seats.items;
  };
  broken = a.broken;
  fallback = fallback_held a.fallback;
  fallen = a.fallen.items;
}
