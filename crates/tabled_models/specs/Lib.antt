pub use Rattle.tabled_cores.specs.Cores
