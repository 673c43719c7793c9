mod DoorLemmas
