-- What the program prints of itself.
use Rattle.std.specs.Prelude.{ℕ, List, codes}

unfoldable pub help_text : List ℕ
help_text = codes "q3net replays schedules of Quake III's connected protocols 68 and 71, and serves and joins by them over UDP\n\nq3net replay PROFILE SCRIPT                replays the schedule of the script by the profile, and prints its report\nq3net serve PROFILE SCRIPT ADDRESS         is a server at the address, by the script whose lines are done when they are due\nq3net join PROFILE SCRIPT ADDRESS SERVER   is a client at the address, of the server at that one, likewise\nq3net play PROFILE DEMO                    plays a demo, and prints what its records do and what they leave\nq3net index PROFILE DEMO INDEX             makes the index of a demo, by which it is sought\nq3net seek PROFILE DEMO INDEX RECORD       prints what so many records of a demo leave, by its index\nq3net make NUMBER SEED                     prints a generated script, of which so many events are drawn from the seed\nq3net trial PROFILE NUMBER SEED            replays that script by the profile, and prints what the report counts\nq3net --help                               prints this text\nq3net --version                            prints the version\n"

unfoldable pub version_text : List ℕ
version_text = codes "q3net 0.1.0\n"
