pub mod DeviceExports
